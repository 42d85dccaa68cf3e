-- Each way out is one way that rules 40 and 41 end, by what counting decides.
use Rattle.compare.proofs.CheckLaws.{entries_differ, places_differ, all_same}
use Rattle.compare.proofs.checking.against.Goals as goal

pub returns-then-file-image : goal.returns-then-file-image
returns-then-file-image c = entries_differ c.args.file.now c.args.image.now c.requires c.if-file-image.true

pub returns-then-not-is_same : goal.returns-then-not-is_same
returns-then-not-is_same c = places_differ c.args.file.now c.args.image.now c.requires c.if-file-image.false c.is_same.ensures c.if-not-is_same.true

pub returns : goal.returns
returns c = all_same c.args.file.now c.args.image.now c.requires c.if-file-image.false c.is_same.ensures c.if-not-is_same.false
