-- The sum is the definition's, and stays below 2 ^ 64 since the index is below 2 ^ 56.
use borrow.Author.Rules.{rules}
use Rattle.scanboot.specs.Packing.{packed_refusal}
use Rattle.scanboot.proofs.packing.refusal.Goals as goal

pub returns : goal.returns
unfolding packed_refusal
returns c = search rules
