-- Programs that ignore the order are shut out: a converter, a loader and a check, each by calls on A or its image, where what the promises say can be computed.
use Prim.Native.Nat.{ℕ}
use mathlib.Core.Path.{◌≡◌, refl, ap, sym, ◌∙◌}
use mathlib.Core.List.{List}
use native.Mathlib.Omega.{arith}
use lib.ListN.{get_or}
use Rattle.fields.specs.Rules.{Outcome, refused, done}
use Rattle.fields.specs.Options.{Options, plain, in_order}
use Rattle.image.specs.Converting.{converting, output_after}
use Rattle.loader.specs.Loading.{loading_image, loading_of}
use Rattle.compare.specs.Checking.{checking}
use Rattle.entries.specs.Bench.{result_of, file_a, image_a, AA}
use Rattle.entries.specs.OrderBench.{image_in2}
use Rattle.demands.specs.Promises.{LoadsImage, Checks}
use Rattle.demands.proofs.ShutOutConversion.{Converter, Keeps}
use Rattle.demands.proofs.ShutOutLoad.{Loader}

-- A's size stands in the fifth byte of its image in order 0, and in order 3 that is 0.

fifth_0 : get_or (output_after 0 (converting (in_order 0 plain) file_a 28) (AA 28)) 4 0 ≡ 5
unfolding result_of
fifth_0 = refl

fifth_3 : get_or (output_after 3 (converting (in_order 3 plain) file_a 28) (AA 28)) 4 0 ≡ 0
unfolding result_of
fifth_3 = refl

-- a converter whose output does not depend on the order
pub cannot_convert_without_the_order :
    (c : Converter)
    → ((a b : ℕ) (o : Options) (file out : List ℕ) → c.left (in_order a o) file out ≡ c.left (in_order b o) file out)
    → Keeps c (in_order 0 plain) file_a (AA 28)
    → Keeps c (in_order 3 plain) file_a (AA 28)
    → ⊥
cannot_convert_without_the_order c wrong k l =
    omega (arith, ap (λ (x : List ℕ). get_or x 4 0) (sym k.1.1 ∙ wrong 0 3 plain file_a (AA 28) ∙ l.1.1), fifth_0, fifth_3)

-- A's image in order 2 is loaded in that order, and refused in order 0: its fifth byte stands where padding does.

loads_in_2 : loading_of (loading_image (in_order 2 plain) (image_in2 0) 0x400 8) ≡ done 5
unfolding result_of
loads_in_2 = refl

refused_in_0 : loading_of (loading_image (in_order 0 plain) (image_in2 0) 0x400 8) ≡ refused 25 0
unfolding result_of
refused_in_0 = refl

-- a loader that takes order 2 for order 0
pub cannot_load_order_2_as_0 :
    (l : Options → Loader)
    → ((image : List ℕ) (base : ℕ) (window : List ℕ) → (l (in_order 2 plain)).answer image base window ≡ (l (in_order 0 plain)).answer image base window)
    → LoadsImage (in_order 0 plain) (image_in2 0) 0x400 (AA 8) ((l (in_order 0 plain)).answer (image_in2 0) 0x400 (AA 8)) ((l (in_order 0 plain)).left (image_in2 0) 0x400 (AA 8))
    → LoadsImage (in_order 2 plain) (image_in2 0) 0x400 (AA 8) ((l (in_order 2 plain)).answer (image_in2 0) 0x400 (AA 8)) ((l (in_order 2 plain)).left (image_in2 0) 0x400 (AA 8))
    → ⊥
cannot_load_order_2_as_0 l wrong k m =
    let e : ◌≡◌ {A = Outcome ℕ} (done 5) (refused 25 0) = sym loads_in_2 ∙ sym m.0 ∙ wrong (image_in2 0) 0x400 (AA 8) ∙ k.0 ∙ refused_in_0 in
    let z : ◌≡◌ {A = ℕ} 0 1 = cc in
    omega arith

-- A's image is "same" with A in order 0, and refused in order 1: its size, read so, is too large.

same_in_0 : checking (in_order 0 plain) file_a image_a ≡ done tt
unfolding result_of
same_in_0 = refl

cut_in_1 : checking (in_order 1 plain) file_a image_a ≡ refused 21 0
unfolding result_of
cut_in_1 = refl

-- a check that does not look at the order
pub cannot_check_without_the_order :
    (check : Options → List ℕ → List ℕ → Outcome (Unit {0}))
    → ((a b : ℕ) (o : Options) (file image : List ℕ) → check (in_order a o) file image ≡ check (in_order b o) file image)
    → Checks (in_order 0 plain) file_a image_a (check (in_order 0 plain) file_a image_a)
    → Checks (in_order 1 plain) file_a image_a (check (in_order 1 plain) file_a image_a)
    → ⊥
cannot_check_without_the_order check wrong k l =
    let e : done tt ≡ refused 21 0 = sym same_in_0 ∙ sym k.0 ∙ wrong 0 1 plain file_a image_a ∙ l.0 ∙ cut_in_1 in
    let z : ◌≡◌ {A = ℕ} 0 1 = cc in
    omega arith
