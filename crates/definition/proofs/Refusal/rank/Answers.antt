-- The variants stand in the order in which the refusals are tried.
use Rattle.std.proofs.Common.{◌≡◌, refl}
use denote.Enum.Declared.{tag_of}
use Rattle.definition.specs.contracts.Refusal.{the_type}
use Rattle.definition.specs.declared.Refusal.{Refusal}
use Rattle.definition.specs.declared.Refusal.TheVariants.{
  LongMap,
  FarAddress,
  Overlap,
  TooManyPages,
  ShortLoan,
  Torn,
  BadLayout,
  NoLevel,
  NoFrame,
  MustWait,
  Outside,
  NoFrameStart,
  NotHeld,
  PastTheEnd,
  PagerLow,
  QueueFull,
  BadLine,
}
use Rattle.definition.specs.Refusal.{place_in, rank}
use Rattle.definition.proofs.Refusal.rank.Goals as goal

declared_rank : (r : Refusal) → tag_of the_type r ≡ rank r
unfolding place_in
declared_rank LongMap = refl
declared_rank FarAddress = refl
declared_rank Overlap = refl
declared_rank TooManyPages = refl
declared_rank ShortLoan = refl
declared_rank Torn = refl
declared_rank BadLayout = refl
declared_rank NoLevel = refl
declared_rank NoFrame = refl
declared_rank MustWait = refl
declared_rank Outside = refl
declared_rank NoFrameStart = refl
declared_rank NotHeld = refl
declared_rank PastTheEnd = refl
declared_rank PagerLow = refl
declared_rank QueueFull = refl
declared_rank BadLine = refl

pub returns : goal.returns
returns c = declared_rank c.args.self
