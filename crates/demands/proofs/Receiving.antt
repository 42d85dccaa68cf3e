-- An address receives the same from blocks in another order or cut elsewhere: of blocks that lie apart only one has it.
use Prim.Native.Nat.{ℕ, ◌+◌, ◌-◌}
use mathlib.Core.Path.{◌≡◌, refl, sym, ◌∙◌}
use mathlib.Core.Bool.{true}
use mathlib.Core.List.{List, ◌∷◌}
use native.Mathlib.Omega.{arith}
use lib.ListN.{length, get_or-append}
use lib.Seq.{get_or-append-add}
use Rattle.fields.specs.Program.{Block, has}
use Rattle.loader.specs.Addresses.{Disjoint}
use Rattle.loader.proofs.AddressLaws.{on, has_range}
use Rattle.compare.specs.Same.{given, received}
use Rattle.compare.proofs.ReceivedLaws.{received_here, received_behind}
use Rattle.demands.specs.Rearranged.{FollowsOn, joint, Rearranged, as_it_was, behind, swapped, joined, cut, then}
use Rattle.demands.proofs.Rearranging.{has_joint, disjoint_rearranged}

-- two blocks that follow on give what the one block gives
module _ (b c : Block) (follows : FollowsOn b c) (a : ℕ) where
  given_first : has b a ≡ true → given b a ≡ given (joint b c) a
  unfolding given
  given_first h = rw (get_or-append b.bytes c.bytes 0 (a - b.load) (omega (arith, has_range b a h)))

  given_second : has c a ≡ true → given c a ≡ given (joint b c) a
  unfolding given
  given_second h =
      let at : a - b.load ≡ length b.bytes + (a - c.load) = omega (arith, has_range c a h, follows.load) in
      let run : c.run + (a - c.load) ≡ b.run + (a - b.load) = omega (arith, has_range c a h, follows.load, follows.run) in
      rw (run, at, get_or-append-add b.bytes c.bytes (a - c.load) 0)

  received_joint : (bs : List Block) → received (b ∷ c ∷ bs) a ≡ received (joint b c ∷ bs) a
  received_joint bs =
      on
      (has b a)
      (λ y. received_here b (c ∷ bs) a y ∙ given_first y ∙ sym (received_here (joint b c) bs a (has_joint b c follows a ∙ rw y)))
      (λ n. received_behind b (c ∷ bs) a n
      ∙ on
      (has c a)
      (λ y. received_here c bs a y ∙ given_second y ∙ sym (received_here (joint b c) bs a (has_joint b c follows a ∙ rw (n, y))))
      (λ m. received_behind c bs a m ∙ sym (received_behind (joint b c) bs a (has_joint b c follows a ∙ rw (n, m)))))

pub received_rearranged : {bs cs : List Block} → Rearranged bs cs → Disjoint bs → (a : ℕ) → received bs a ≡ received cs a
received_rearranged as_it_was d a = refl
received_rearranged (behind b {bs} {cs} r) d a =
    on
    (has b a)
    (λ y. received_here b bs a y ∙ sym (received_here b cs a y))
    (λ n. received_behind b bs a n ∙ received_rearranged r d.1 a ∙ sym (received_behind b cs a n))
received_rearranged (swapped b c {bs}) d a =
    on
    (has b a)
    (λ y. received_here b (c ∷ bs) a y ∙ sym (received_behind c (b ∷ bs) a (d.0.0 a y) ∙ received_here b bs a y))
    (λ n. received_behind b (c ∷ bs) a n
    ∙ on
    (has c a)
    (λ y. received_here c bs a y ∙ sym (received_here c (b ∷ bs) a y))
    (λ m. received_behind c bs a m ∙ sym (received_behind c (b ∷ bs) a m ∙ received_behind b bs a n)))
received_rearranged (joined b c {bs} f) d a = received_joint b c f a bs
received_rearranged (cut b c {bs} f) d a = sym (received_joint b c f a bs)
received_rearranged (then r s) d a = received_rearranged r d a ∙ received_rearranged s (disjoint_rearranged r d) a
