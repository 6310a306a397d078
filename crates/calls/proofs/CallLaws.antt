-- What each call is, call by call.
use Rattle.std.specs.Prelude.{◌≡◌}
use Rattle.calls.specs.{refl, None, World, effect_of, Call, Newwin, Move, Overlay, Getyx, NewPanel, PanelAbove, PanelBelow, UpdatePanels, is_query, only_asks, tested, refusals_of}
use Rattle.world.specs.declared.call.Call.TheVariants as calls

pub query-asks : (world : World) (call : Call) → is_query call ≡ only_asks (effect_of world call)
query-asks world (calls.Making (Newwin lines columns y x)) = refl
query-asks world (calls.Copying (Overlay src dst)) = refl
query-asks world (calls.Stacking (NewPanel win)) = refl
query-asks world (calls.Refresh UpdatePanels) = refl
query-asks world call = refl

pub tested-named : (world : World) (call : Call) → tested world call ≡ refusals_of call
tested-named world (calls.Making (Newwin lines columns y x)) = refl
tested-named world (calls.Writing (Move win y x)) = refl
tested-named world (calls.Copying (Overlay src dst)) = refl
tested-named world (calls.Query (Getyx win)) = refl
tested-named world (calls.Stacking (PanelAbove None)) = refl
tested-named world (calls.Stacking (PanelBelow None)) = refl
tested-named world (calls.Refresh UpdatePanels) = refl
tested-named world call = refl
