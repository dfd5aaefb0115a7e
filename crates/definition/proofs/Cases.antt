-- Each case of specs/Cases comes out as the paper says, and a small world is sound and is its own encoding.
use mathlib.Core.Bool.{true}
use mathlib.Core.List.{map}
use mathlib.Core.Path.{◌≡◌, refl}
use Rattle.definition.specs.Board.{standard}
use Rattle.definition.specs.Calls.{Low, answer_number}
use Rattle.definition.specs.World.{decode, encode}
use Rattle.definition.specs.Torn.{sound, call}
use Rattle.definition.specs.Script.{same_bytes, output_of}
use Rattle.definition.specs.Compute.{everything}
use Rattle.definition.specs.Table.{Row, seen}
use Rattle.definition.specs.Cases.{Case, program, scripts, large, Damage, damaged, tiny, tiny_world, numbers_of}

pub printed : map (λ (c : Case). output_of standard program c.script) scripts ≡ map (λ (c : Case). c.output) scripts
unfolding everything
printed = refl

pub large_frames : map seen large ≡ map (λ (w : Row). w.wanted) large
unfolding everything
large_frames = refl

pub refused_torn : map (λ (d : Damage). answer_number (call standard d.world Low).answer) damaged ≡ map (λ (d : Damage). d.number) damaged
unfolding everything
refused_torn = refl

pub tiny_sound : sound tiny tiny_world ≡ true
unfolding everything
tiny_sound = refl

pub tiny_encoded : same_bytes (numbers_of (encode tiny (decode tiny tiny_world) tiny_world)) (numbers_of tiny_world) ≡ true
unfolding everything
tiny_encoded = refl
