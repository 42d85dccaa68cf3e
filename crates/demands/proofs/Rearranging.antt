-- The order of blocks that lie apart, and where a block was cut, make no difference to placing: writes that lie apart may change places, and one that follows on is the rest of one write.
use Prim.Native.Nat.{ℕ, ◌+◌, ◌-◌, ◌<◌, ◌≤◌}
use mathlib.Core.Path.{◌≡◌, refl, ap, sym, subst, ◌∙◌}
use mathlib.Core.Bool.{false, ◌||◌, or-true}
use mathlib.Core.List.{List, [], ◌∷◌}
use mathlib.Core.Logic.{◌⊎◌, inl, inr, ⊎_elim, ◌↔◌}
use native.Mathlib.Omega.{arith}
use borrow.Author.Tests.{ltb-true, ltb-false}
use lib.ListN.{length, length-append, take-append-drop}
use lib.Seq.{length-take-le}
use lib.Dec.{ltb}
use Rattle.fields.specs.Patch.{patch}
use Rattle.fields.specs.Program.{Block, has}
use Rattle.fields.proofs.PatchLaws.{patch_nil, patch_then, patch_comm}
use Rattle.fields.proofs.TestLaws.{neither_holds}
use Rattle.loader.specs.Placing.{is_outside, placed, sizes_of}
use Rattle.loader.specs.Addresses.{Each, Misses, Disjoint, Within}
use Rattle.demands.specs.Rearranged.{FollowsOn, joint, front, back, Rearranged, as_it_was, behind, swapped, joined, cut, then}
use Rattle.loader.proofs.AddressLaws.{on, has_range, has_in, has_out, has_not, inside_range, range_inside, each_of, each_both, misses_back}

-- Two blocks that follow on, and the one block that they are.
module _ (b c : Block) (follows : FollowsOn b c) where
  pub has_joint : (a : ℕ) → has (joint b c) a ≡ has b a || has c a
  has_joint a =
      let l = length-append b.bytes c.bytes in
      on
      (has b a)
      (λ y. rw y (has_in (joint b c) a (has_range b a y).0 (omega (arith, has_range b a y))))
      (λ n. on
      (has c a)
      (λ y. rw (n, y) (has_in (joint b c) a (omega (arith, has_range c a y, follows.load)) (omega (arith, has_range c a y, follows.load))))
      (λ m. rw (n, m)
      (has_out (joint b c) a
      (λ u v. ⊎_elim (λ p. omega arith) (λ p. ⊎_elim (λ q. omega (arith, follows.load)) (λ q. omega (arith, follows.load)) (has_not c a m)) (has_not b a n)))))

  follows_misses : Misses b c
  follows_misses a h = has_out c a (λ u v. omega (arith, has_range b a h, follows.load))

  joint_misses : (d : Block) → (Misses b d × Misses c d) ↔ Misses (joint b c) d
  joint_misses d = (
    λ h a k. on (has b a) (λ y. h.0 a y) (λ n. h.1 a (sym (has_joint a ∙ rw n) ∙ k)),
    λ h. (λ a k. h a (has_joint a ∙ rw k), λ a k. h a (has_joint a ∙ rw (k, or-true (has b a)))),
  )

  misses_joint : (d : Block) → (Misses d b × Misses d c) ↔ Misses d (joint b c)
  misses_joint d = (
    λ h a k. has_joint a ∙ rw (h.0 a k, h.1 a k),
    λ h. (λ a k. (neither_holds (has b a) (has c a) (sym (has_joint a) ∙ h a k)).0, λ a k. (neither_holds (has b a) (has c a) (sym (has_joint a) ∙ h a k)).1),
  )

  inside_joint : (base room : ℕ) → ((is_outside base room b ≡ false) × (is_outside base room c ≡ false)) ↔ (is_outside base room (joint b c) ≡ false)
  inside_joint base room =
      let l = length-append b.bytes c.bytes in (
        λ h. range_inside base room (joint b c) (inside_range base room b h.0).0 (omega (arith, inside_range base room c h.1, follows.load)),
        λ h. (range_inside base room b (inside_range base room (joint b c) h).0 (omega (arith, inside_range base room (joint b c) h)), range_inside base room c (omega (arith, inside_range base room (joint b c) h, follows.load)) (omega (arith, inside_range base room (joint b c) h, follows.load))),
      )

-- What holds of each block of a row still does, if it holds of a block where it holds of its two parts.
each_rearranged :
    (P : Block → Type 0)
    → ((b c : Block) → FollowsOn b c → (P b × P c) ↔ P (joint b c))
    → {bs cs : List Block}
    → Rearranged bs cs
    → Each P bs
    → Each P cs
each_rearranged P parts as_it_was e = e
each_rearranged P parts (behind b r) e = (e.0, each_rearranged P parts r e.1)
each_rearranged P parts (swapped b c) e = (e.1.0, (e.0, e.1.1))
each_rearranged P parts (joined b c f) e = ((parts b c f).0 (e.0, e.1.0), e.1.1)
each_rearranged P parts (cut b c f) e = let p = (parts b c f).1 e.0 in (p.0, (p.1, e.1))
each_rearranged P parts (then r s) e = each_rearranged P parts s (each_rearranged P parts r e)

pub within_rearranged : (base room : ℕ) {bs cs : List Block} → Rearranged bs cs → Within base room bs → Within base room cs
within_rearranged base room = each_rearranged (λ b. is_outside base room b ≡ false) (λ b c f. inside_joint b c f base room)

pub disjoint_rearranged : {bs cs : List Block} → Rearranged bs cs → Disjoint bs → Disjoint cs
disjoint_rearranged as_it_was e = e
disjoint_rearranged (behind b r) e = (each_rearranged (Misses b) (λ c d f. misses_joint c d f b) r e.0, disjoint_rearranged r e.1)
disjoint_rearranged (swapped b c) e = ((misses_back b c e.0.0, e.1.0), (e.0.1, e.1.1))
disjoint_rearranged (joined b c {bs} f) e = (each_both bs (λ d p q. (joint_misses b c f d).0 (p, q)) e.0.1 e.1.0, e.1.1)
disjoint_rearranged (cut b c {bs} f) e = (
  (follows_misses b c f, each_of bs (λ d h. ((joint_misses b c f d).1 h).0) e.0),
  (each_of bs (λ d h. ((joint_misses b c f d).1 h).1) e.0, e.1),
)
disjoint_rearranged (then r s) e = disjoint_rearranged s (disjoint_rearranged r e)

-- the figure
pub sizes_rearranged : {bs cs : List Block} → Rearranged bs cs → sizes_of bs ≡ sizes_of cs
unfolding sizes_of
sizes_rearranged as_it_was = refl
sizes_rearranged (behind b r) = ap (λ (n : ℕ). length b.bytes + n) (sizes_rearranged r)
sizes_rearranged (swapped b c) = omega arith
sizes_rearranged (joined b c f) = omega (arith, length-append b.bytes c.bytes)
sizes_rearranged (cut b c f) = omega (arith, length-append b.bytes c.bytes)
sizes_rearranged (then r s) = sizes_rearranged r ∙ sizes_rearranged s

-- Two writes.

-- of two blocks that lie apart, neither of them empty, one ends before the other begins
one_first : (b c : Block) → Misses b c → 0 < length b.bytes → 0 < length c.bytes → (c.load + length c.bytes ≤ b.load) ⊎ (b.load + length b.bytes ≤ c.load)
one_first b c apart s t =
    on
    (ltb c.load b.load)
    (λ y. inl
    (⊎_elim
    (λ u. absurd (omega (arith, ltb-true)))
    (λ v. v)
    (has_not c b.load (apart b.load (has_in b b.load (omega arith) (omega arith))))))
    (λ n. inr
    (⊎_elim
    (λ u. absurd (omega (arith, ltb-false)))
    (λ v. v)
    (has_not b c.load (misses_back b c apart c.load (has_in c c.load (omega arith) (omega arith))))))

none_written : (window : List ℕ) (at : ℕ) (bytes : List ℕ) → length bytes ≡ 0 → patch window at bytes ≡ window
none_written window at [] e = patch_nil window at
none_written window at (y ∷ bytes) e = absurd (omega arith)

module _ (base : ℕ) (window : List ℕ) (b c : Block) where
  abbrev onto : List ℕ → Block → List ℕ
  onto w d = patch w (d.load - base) d.bytes

  in_either_order : base ≤ b.load → base ≤ c.load → Misses b c → onto (onto window b) c ≡ onto (onto window c) b
  in_either_order l m apart =
      on
      (ltb 0 (length b.bytes))
      (λ some-b. on
      (ltb 0 (length c.bytes))
      (λ some-c. patch_comm window (b.load - base) b.bytes (c.load - base) c.bytes
      (⊎_elim (λ u. inl (omega arith)) (λ v. inr (omega arith)) (one_first b c apart (ltb-true _ _ some-b) (ltb-true _ _ some-c))))
      (λ none-c. rw (none_written (onto window b) (c.load - base) c.bytes (omega (arith, ltb-false)), none_written window (c.load - base) c.bytes (omega (arith, ltb-false)))))
      (λ none-b. rw (none_written window (b.load - base) b.bytes (omega (arith, ltb-false)), none_written (onto window c) (b.load - base) b.bytes (omega (arith, ltb-false))))

  in_one : base ≤ b.load → FollowsOn b c → onto (onto window b) c ≡ onto window (joint b c)
  in_one l f = patch_then window (b.load - base) b.bytes (c.load - base) c.bytes (omega (arith, f.load))

-- the window
pub placed_rearranged : (base room : ℕ) (window : List ℕ) {bs cs : List Block} → Rearranged bs cs → Disjoint bs → Within base room bs → placed base window bs ≡ placed base window cs
unfolding placed
placed_rearranged base room window as_it_was apart inside = refl
placed_rearranged base room window (behind b r) apart inside =
    placed_rearranged base room (patch window (b.load - base) b.bytes) r apart.1 inside.1
placed_rearranged base room window (swapped b c {bs}) apart inside =
    ap (λ (w : List ℕ). placed base w bs)
    (in_either_order base window b c (inside_range base room b inside.0).0 (inside_range base room c inside.1.0).0 apart.0.0)
placed_rearranged base room window (joined b c {bs} f) apart inside =
    ap (λ (w : List ℕ). placed base w bs) (in_one base window b c (inside_range base room b inside.0).0 f)
placed_rearranged base room window (cut b c {bs} f) apart inside =
    ap (λ (w : List ℕ). placed base w bs) (sym (in_one base window b c (inside_range base room (joint b c) inside.0).0 f))
placed_rearranged base room window (then r s) apart inside =
    placed_rearranged base room window r apart inside
    ∙ placed_rearranged base room window s (disjoint_rearranged r apart) (within_rearranged base room r inside)

-- a block may be cut anywhere
pub cut_at : (n : ℕ) (b : Block) {bs : List Block} → n ≤ length b.bytes → Rearranged (b ∷ bs) (front n b ∷ back n b ∷ bs)
cut_at n b {bs} h =
    let whole : joint (front n b) (back n b) ≡ b = λ i. record { load = b.load; run = b.run; bytes = take-append-drop n b.bytes i } in
    let size = length-take-le n b.bytes h in
    subst (λ (x : Block). Rearranged (x ∷ bs) (front n b ∷ back n b ∷ bs)) whole
    (cut (front n b) (back n b) (record { load = rw size; run = rw size }))
