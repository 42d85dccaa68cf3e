-- Each answer is the first rule of the table that holds, by the tests that led to it.
use mathlib.Core.Path.{refl, ap}
use mathlib.Core.Bool.{not}
use native.Mathlib.Omega.{arith}
use Rattle.fields.proofs.TestLaws.{tests}
use Rattle.coff.specs.File.{version, target, optional_size, file_flags}
use Rattle.coff.proofs.JudgingLaws.{refused_by, passes}
use Rattle.coff.proofs.header.first_rules.Goals as goal

pub returns-then-f-gt16777216 : goal.returns-then-f-gt16777216
unfolding version target optional_size file_flags
returns-then-f-gt16777216 c = refused_by 0 _ (omega (arith, tests))

pub returns-then-f-lt22 : goal.returns-then-f-lt22
unfolding version target optional_size file_flags
returns-then-f-lt22 c = refused_by 1 _ (omega (arith, tests))

pub returns-then-u16_at-ne194 : goal.returns-then-u16_at-ne194
unfolding version target optional_size file_flags
returns-then-u16_at-ne194 c = refused_by 2 _ (omega (arith, tests))

pub returns-then-u16_at-ne153 : goal.returns-then-u16_at-ne153
unfolding version target optional_size file_flags
returns-then-u16_at-ne153 c = refused_by 3 _ (omega (arith, tests))

pub returns-then-odd : goal.returns-then-odd
unfolding version target optional_size file_flags
returns-then-odd c = refused_by 4 _ (omega (arith, tests), (rw c.u16_at-optional.ensures at (ap not c.if-odd.true), refl, refl))

pub returns-then-u16_at-ne1 : goal.returns-then-u16_at-ne1
unfolding version target optional_size file_flags
returns-then-u16_at-ne1 c =
    let odd = rw c.u16_at-optional.ensures at (ap not c.if-odd.false) in
    refused_by 5 _ ((omega (arith, tests), (omega (arith, tests), (omega (arith, tests), (omega (arith, tests), (odd, tt))))), omega (arith, tests))

pub returns : goal.returns
unfolding version target optional_size file_flags
returns c =
    let odd = rw c.u16_at-optional.ensures at (ap not c.if-odd.false) in
    passes _ (omega (arith, tests), (omega (arith, tests), (omega (arith, tests), (omega (arith, tests), (odd, (omega (arith, tests), tt))))))
