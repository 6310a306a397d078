-- Writes through a window of a known state: one in another form, two that are one, and none.
use Rattle.std.specs.Prelude.{◌≡◌}
use Rattle.windows.specs.{ℕ, None, sym, WindowMap, Windows, Drawing, put, over, IsStateOf}
use Rattle.windows.specs.declared.state.WindowState.{WindowState}
use Rattle.world.proofs.WindowLaws.{put-nothing}
use Rattle.world.proofs.PutLaws.{AreSame, put-same, put-then}

with_map : (windows : Windows) (u v : WindowMap) → u ≡ v → record windows { window = u } ≡ record windows { window = v }
with_map windows u v e = λ i. record windows { window = e i }

module _ (windows : Windows) (w : ℕ) (s : WindowState) (h : IsStateOf windows w s) where
  -- a write of a drawing that is the same in the window, and two writes that are one
  pub once : (f g : Drawing) (new : Windows) → AreSame h.window f g → new ≡ put windows w f → new ≡ put windows w g
  once f g new same is = rw is (with_map windows _ _ (put-same windows.window w h.window f g h.there same))

  pub twice : (f g both : Drawing) (now new : Windows) → AreSame h.window (over g f) both → now ≡ put windows w f → new ≡ put now w g → new ≡ put windows w both
  twice f g both now new same before after = rw (after, before) (with_map windows _ _ (put-then windows.window w h.window f g both h.there same))

  pub nothing : (f : Drawing) → ((y x : ℕ) → f y x ≡ None) → windows ≡ put windows w f
  nothing f none = sym (with_map windows _ _ (put-nothing windows.window w f none))
