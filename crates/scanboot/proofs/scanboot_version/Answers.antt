-- The number that is answered is the version's.
use mathlib.Core.Path.{refl}
use Rattle.scanboot.specs.Version.{library_version}
use Rattle.scanboot.proofs.scanboot_version.Goals as goal

pub returns : goal.returns
unfolding library_version
returns c = refl
