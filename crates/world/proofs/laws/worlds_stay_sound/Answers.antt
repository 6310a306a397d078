use Rattle.world.specs.{fill_edit, put_edit}
use Rattle.world.proofs.FitsCalls.{fits-fill, fits-put}
use Rattle.world.proofs.SoundCalls.{sound-call, sound-edited}
use Rattle.world.proofs.laws.worlds_stay_sound.Goals as goal

pub returns : goal.returns
returns c = record {
  called = sound-call;
  filled = λ world w r number sound. sound-edited world (fill_edit w r number) sound (fits-fill world.windows w r number);
  put = λ world w y x numbers sound. sound-edited world (put_edit w y x numbers) sound (fits-put world.windows w y x numbers);
}
