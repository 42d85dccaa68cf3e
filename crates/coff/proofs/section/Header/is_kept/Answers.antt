-- No size, code and data, or anything else: of the definition's two sentences none or one is left.
use mathlib.Core.Path.{sym, ap, ◌∙◌}
use Rattle.coff.specs.Kept.{is_shut_out, is_code_or_data, has_type}
use Rattle.coff.proofs.KeptLaws.{empty_left, code_kept, others_kept}
use Rattle.coff.proofs.section.Header.is_kept.Goals as goal

pub returns-then-size-eq0 : goal.returns-then-size-eq0
returns-then-size-eq0 c = empty_left _ (sym c.size.ensures ∙ c.if-size-eq0.true)

pub returns-then-is_code_or_data : goal.returns-then-is_code_or_data
returns-then-is_code_or_data c =
    code_kept _ (λ z. c.if-size-eq0.false (c.size.ensures ∙ z)) _ (c.is_shut_out.ensures ∙ ap is_shut_out c.flags-n.ensures) (sym (c.is_code_or_data.ensures ∙ ap is_code_or_data c.flags-n.ensures) ∙ c.if-is_code_or_data.true)

pub returns : goal.returns
returns c =
    rw c.raw.ensures (others_kept _ (λ z. c.if-size-eq0.false (c.size.ensures ∙ z)) _ (c.has_type-typed.ensures ∙ ap has_type c.flags-n.ensures) (sym (c.is_code_or_data.ensures ∙ ap is_code_or_data c.flags-n.ensures) ∙ c.if-is_code_or_data.false))
