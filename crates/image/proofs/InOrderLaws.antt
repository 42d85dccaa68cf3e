-- Rule 33 before the rules of an image: it refuses, or the answer is that of the image after undoing.
use Prim.Native.Nat.{ℕ}
use mathlib.Core.Path.{◌≡◌, refl, sym, ◌∙◌}
use mathlib.Core.Bool.{Bool, true, false}
use mathlib.Core.List.{List}
use native.Mathlib.Omega.{arith}
use Rattle.fields.specs.Rules.{Outcome, refused, done, rules_first}
use Rattle.fields.specs.Options.{plain, in_order, is_no_order, option_rules}
use Rattle.fields.proofs.OptionLaws.{plain_passes, order_refused, options_pass}
use Rattle.image.specs.Order.{undone, undone_from}
use Rattle.image.specs.Reading.{read_image, reading_in, reading_of, reading_numbers, numbers_of_reading}
use Rattle.image.specs.Asking.{asking, asking_in, asked_of, asked_numbers, numbers_of_asked}
use Rattle.image.specs.Standing.{standing, standing_in}
use Rattle.image.specs.declared.Contents.{Contents}
use Rattle.image.proofs.ReadLaws.{reading_numbers_lem}
use Rattle.image.proofs.AskingLaws.{not_read, asked_numbers_lem}

-- of any call that takes no pattern
module _ {A : Type 0} (order : ℕ) (out : Outcome A) where
  pub order_refuses : is_no_order order ≡ true → rules_first (option_rules (in_order order plain)) out ≡ refused 33 0
  order_refuses h = order_refused (in_order order plain) out plain_passes h

  pub order_passes : is_no_order order ≡ false → rules_first (option_rules (in_order order plain)) out ≡ out
  order_passes h = options_pass (in_order order plain) out plain_passes h

module _ (order : ℕ) (s : List ℕ) where
  pub reading_refused_in : is_no_order order ≡ true → (refused 33 0 ≡ reading_of (reading_in (in_order order plain) s)) × (numbers_of_reading (refused 33 0) ≡ reading_numbers (reading_in (in_order order plain) s))
  unfolding reading_in reading_of
  reading_refused_in h = reading_numbers_lem _ (rw (order_refuses order (read_image (undone order s)) h))

  pub reading_passed : is_no_order order ≡ false → reading_in (in_order order plain) s ≡ read_image (undone order s)
  unfolding reading_in
  reading_passed h = order_passes order (read_image (undone order s)) h

  -- what is told of an image is told in one of the four
  pub order_told : {c : Contents} → done c ≡ reading_of (reading_in (in_order order plain) s) → is_no_order order ≡ false
  order_told {c} e = go (is_no_order order) refl
    where
      go : (t : Bool) → is_no_order order ≡ t → is_no_order order ≡ false
      go false q = q
      go true q =
          let both : ◌≡◌ {A = Outcome Contents} (done c) (refused 33 0) = e ∙ sym (reading_refused_in q).0 in
          let z : ◌≡◌ {A = ℕ} 0 1 = cc in
          absurd (omega arith)

  module _ (k : ℕ) where
    pub asking_passed : is_no_order order ≡ false → asking_in (in_order order plain) s k ≡ asking (undone order s) k
    unfolding asking_in
    asking_passed h = order_passes order (asking (undone order s) k) h

    -- what refuses the image refuses asking for a block of it
    pub asking_refused : {code index : ℕ} → refused code index ≡ reading_of (reading_in (in_order order plain) s) → refused code index ≡ asked_of (asking_in (in_order order plain) s k)
    unfolding asking_in asked_of
    asking_refused {code} {index} e = go (is_no_order order) refl
      where
        go : (t : Bool) → is_no_order order ≡ t → refused code index ≡ asked_of (rules_first (option_rules (in_order order plain)) (asking (undone order s) k))
        go false q =
            rw (order_passes order (asking (undone order s) k) q) (not_read (undone order s) k (sym (rw (reading_passed q) at e)))
        go true q =
            let both : ◌≡◌ {A = Outcome Contents} (refused code index) (refused 33 0) = e ∙ sym (reading_refused_in q).0 in
            rw (order_refuses order (asking (undone order s) k) q) (cc)

    pub standing_refused_in : is_no_order order ≡ true → (refused 33 0 ≡ asked_of (standing_in (in_order order plain) s k)) × (numbers_of_asked (refused 33 0) ≡ asked_numbers (standing_in (in_order order plain) s k))
    unfolding standing_in asked_of
    standing_refused_in h = asked_numbers_lem _ (rw (order_refuses order (standing (undone_from order k s) k) h))

    pub standing_passed : is_no_order order ≡ false → standing_in (in_order order plain) s k ≡ standing (undone_from order k s) k
    unfolding standing_in
    standing_passed h = order_passes order (standing (undone_from order k s) k) h
