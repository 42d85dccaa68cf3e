-- Each answer is the first rule of the table that holds, by the tests that led to it.
use mathlib.Core.Path.{refl}
use native.Mathlib.Omega.{arith}
use Rattle.fields.proofs.TestLaws.{tests, both, not_first, not_second}
use Rattle.coff.specs.File.{section_count, optional_size, magic, headers_begin, headers_end}
use Rattle.coff.proofs.JudgingLaws.{refused_by, passes}
use Rattle.coff.proofs.header.next_rules.Goals as goal

pub returns-then-count-gt256 : goal.returns-then-count-gt256
unfolding section_count optional_size magic headers_end headers_begin
returns-then-count-gt256 c = refused_by 0 _ (omega (arith, tests))

pub returns-then-f-end : goal.returns-then-f-end
unfolding section_count optional_size magic headers_end headers_begin
returns-then-f-end c = refused_by 1 _ (omega (arith, tests))

pub returns-then-u16_at-ne264 : goal.returns-then-u16_at-ne264
unfolding section_count optional_size magic headers_end headers_begin
returns-then-u16_at-ne264 c =
    let f = c.args.f.now in
    refused_by 2 _ (omega (arith, tests), (both (optional_size f) 28 (magic f) 0x108 (omega arith), refl, refl))

pub returns-else-u16_at-ne264 : goal.returns-else-u16_at-ne264
unfolding section_count optional_size magic headers_end headers_begin
returns-else-u16_at-ne264 c = passes _ (omega (arith, tests, not_second))

pub returns-else-optional-eq28 : goal.returns-else-optional-eq28
unfolding section_count optional_size magic headers_end headers_begin
returns-else-optional-eq28 c = passes _ (omega (arith, tests, not_first))
