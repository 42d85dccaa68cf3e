-- How long each line is: its words, its addresses and its LF, and the digits of its other numbers.
use Prim.Native.Nat.{ℕ, ◌+◌, ◌^◌, ◌<◌, ◌≤◌}
use mathlib.Core.Path.{◌≡◌}
use native.Mathlib.Omega.{arith}
use lib.ListN.{length, length-append}
use Rattle.lines.specs.Text.{decimal, head_line, section_line, image_line, refusal_line}
use Rattle.lines.proofs.DigitLaws.{length_decimal, length_hex}

pub length_head : (sections kept entry : ℕ) → length (head_line sections kept entry) ≡ length (decimal sections) + length (decimal kept) + 36
unfolding head_line
length_head sections kept entry = simp (length-append, length_hex) (omega arith)

pub length_section : (i load run size : ℕ) → length (section_line i load run size) ≡ length (decimal i) + length (decimal size) + 34
unfolding section_line
length_section i load run size = simp (length-append, length_hex) (omega arith)

pub length_image_line : (n : ℕ) → length (image_line n) ≡ length (decimal n) + 7
unfolding image_line
length_image_line n = simp length-append (omega arith)

length_refusal : (code index : ℕ) → length (refusal_line code index) ≡ length (decimal code) + length (decimal index) + 10
unfolding refusal_line
length_refusal code index = simp length-append (omega arith)

-- a number of 64 bits has at most twenty digits
pub length_decimal_few : (n : ℕ) → n < 2 ^ 64 → length (decimal n) ≤ 20
length_decimal_few n h = length_decimal 19 n (omega arith)

-- How long each may be.

pub head_short : (sections kept entry : ℕ) → sections < 1000 → kept < 1000 → length (head_line sections kept entry) ≤ 42
head_short sections kept entry h k =
    omega (arith, length_head sections kept entry, length_decimal 2 sections h, length_decimal 2 kept k)

pub section_short : (i load run size : ℕ) → i < 1000 → size < 2 ^ 32 → length (section_line i load run size) ≤ 47
section_short i load run size h k =
    omega (arith, length_section i load run size, length_decimal 2 i h, length_decimal 9 size (omega arith))

pub image_short : (n : ℕ) → n < 10000000000 → length (image_line n) ≤ 17
image_short n h = omega (arith, length_image_line n, length_decimal 9 n h)

pub refusal_short : (code index : ℕ) → code < 1000 → index < 1000 → length (refusal_line code index) ≤ 16
refusal_short code index h k =
    omega (arith, length_refusal code index, length_decimal 2 code h, length_decimal 2 index k)
