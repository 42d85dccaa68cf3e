-- Where the section headers begin tells whether there is an optional header.
use mathlib.Core.Path.{◌∙◌}
use native.Mathlib.Omega.{arith}
use Rattle.coff.specs.File.{headers_begin}
use Rattle.coff.proofs.AnswerLaws.{begins_far, entry_none, entry_some}
use Rattle.coff.proofs.reading.entry.Goals as goal

pub returns-then-headers-eq22 : goal.returns-then-headers-eq22
unfolding headers_begin
returns-then-headers-eq22 c = entry_none c.args.headers.now.file.now (omega (arith, c.args.headers.now.laid.begins))

pub u32_at-requires : goal.u32_at-requires
u32_at-requires c =
    let laid = c.args.headers.now.laid in
    omega (arith, laid, begins_far c.args.headers.now.file.now c.requires (λ z. c.if-headers-eq22.false (laid.begins ∙ z)))

pub returns : goal.returns
unfolding headers_begin
returns c =
    c.u32_at.ensures ∙ entry_some c.args.headers.now.file.now (λ z. c.if-headers-eq22.false (omega (arith, c.args.headers.now.laid.begins)))
