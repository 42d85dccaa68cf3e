-- How large an answer's numbers are at most, so that each has room at its bits.
use Rattle.std.specs.Prelude.{ℕ, ◌*◌, ◌^◌, ◌<◌, ◌≤◌}
use Rattle.fields.specs.Rules.{Outcome, refused, done}
use Rattle.fields.specs.declared.Part.{Part}
use Rattle.image.specs.declared.Figures.{Figures}
use Rattle.image.specs.declared.Contents.{Contents}

-- a refusal's code is none of success and fits one byte; its index fits the 56 bits above it
pub record SmallRefusal (code index : ℕ) : Type 0 where
  pub real : 0 < code
  pub byte : code < 2 ^ 8
  pub low : index < 2 ^ 56

abbrev pub SmallConversion : Outcome Figures → Type 0
SmallConversion (refused code index) = SmallRefusal code index
SmallConversion (done made) = (made.length ≤ 16777216) × (made.kept ≤ 256)

abbrev pub SmallReading : Outcome Contents → Type 0
SmallReading (refused code index) = SmallRefusal code index
SmallReading (done c) = (c.entry < 2 ^ 32) × (c.blocks ≤ 4096)

abbrev pub SmallAsked : Outcome Part → Type 0
SmallAsked (refused code index) = SmallRefusal code index
SmallAsked (done p) = (p.size ≤ 16777216) × (p.load.0 < 2 ^ 32) × (p.run.0 < 2 ^ 32) × (p.raw.0 ≤ 16777216)

-- a coarse bound: 4,096 parts at most, each of them at most as long as the file or image it comes from
abbrev pub SmallLoading : Outcome ℕ → Type 0
SmallLoading (refused code index) = SmallRefusal code index
SmallLoading (done bytes) = bytes ≤ 4096 * 16777216

abbrev pub SmallVerdict : Outcome (Unit {0}) → Type 0
SmallVerdict (refused code index) = SmallRefusal code index
SmallVerdict (done u) = Unit {0}

abbrev pub SmallListing : Outcome ℕ → Type 0
SmallListing (refused code index) = SmallRefusal code index
SmallListing (done size) = size ≤ 16384
