-- `put`: of a text each piece is put, or a prefix of it (`PutLemmas`).
use Rattle.commands.specs.{refl}
use Rattle.commands.proofs.PutLemmas.{cut_put, more_put, sent_piece}
use Rattle.commands.proofs.writing.put.Goals as goal

pub loop-rest-preserved : goal.loop-rest-preserved
loop-rest-preserved g c =
    more_put (λ l. l) (λ a b. refl) _ _ _ _ _ _ _ _ _ c.loop-rest.invariant (sent_piece _ _ _ _ c.in-Ok.ensures.sends) refl c.split_at.ensures.front c.split_at.ensures.back

pub returns-in-Err : goal.returns-in-Err
returns-in-Err g c =
    cut_put (λ l. l) (λ a b. refl) _ _ _ _ _ _ _ _ _ c.loop-rest.invariant (sent_piece _ _ _ _ c.in-Err.ensures.sends) refl c.split_at.ensures.front c.split_at.ensures.back
