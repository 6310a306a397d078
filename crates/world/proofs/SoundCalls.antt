-- Each effect leaves a sound world sound, and so does each call that isn't refused.
use Rattle.std.specs.Prelude.{◌≡◌}
use Rattle.world.specs.{Some, None, arith, Windows, Panels, window_or_standard, World, AreSoundPanels, AreSoundWindows, IsSound, Change, asks, edits, marks, makes, deletes, moves, shifts, Effect}
use Rattle.world.specs.{arranges, refreshes, composes, Order, changes, carries, after, after_change, composed_windows, windows_after, effect_of, refusal, world_after}
use Rattle.world.specs.{Edit, world_edited}
use Rattle.world.specs.declared.call.Call.{Call}
use Rattle.world.proofs.Allowed.{sound-panel}
use Rattle.world.proofs.CallLaws.{IsReady, ready}
use Rattle.world.proofs.Fits.{FitsChange, FitsEdit, FitsEffect, FitsOrder}
use Rattle.world.proofs.FitsCalls.{fits-copying, fits-writing}
use Rattle.world.proofs.Sizes.{size-effect}
use Rattle.world.proofs.SoundEdits.{sound-edit, sound-marks, sound-unmarked, sound-unmarked_lines}
use Rattle.world.proofs.SoundMaking.{fits-making, sound-deleted, sound-made, sound-moved, sound-shifted}
use Rattle.world.proofs.SoundOrders.{fits-stacking, sound-panels}
use Rattle.world.proofs.SoundScreens.{fits-refresh, sound-virtual}
use Rattle.world.proofs.PlaceLaws.{panels-kept, places-changed, same_if}

-- ---- each effect

sound-change : (windows : Windows) (change : Change) → AreSoundWindows windows → FitsChange windows change → AreSoundWindows (after_change windows change)
sound-change windows (edits edit) sound fits = sound-edit windows edit sound fits
sound-change windows (marks test change) sound fits = sound-marks windows test change sound fits
sound-change windows (asks reply) sound fits = sound
sound-change windows (makes n a) sound fits = sound-made windows n a sound fits
sound-change windows (deletes w) sound fits = sound-deleted windows w sound fits
sound-change windows (moves w place) sound fits = sound-moved windows w place sound fits
sound-change windows (shifts w place) sound fits = sound-shifted windows w place sound fits

sound-order : (windows : Windows) (panels : Panels) (order : Order) → AreSoundWindows windows → AreSoundPanels windows.window panels → FitsOrder windows panels order
    → AreSoundWindows (windows_after windows panels order)
sound-order windows panels (changes change) sound panels_sound fits = sound-change windows change sound fits
sound-order windows panels (carries p place) sound panels_sound fits = sound-moved windows (window_or_standard panels (Some p)) place sound (grind (arith, sound-panel))
sound-order windows panels order sound panels_sound fits = sound

module _ (world : World) (sound : IsSound world) where
  windows-after : (effect : Effect) → FitsEffect world effect → AreSoundWindows (after world effect).windows
  windows-after (arranges order) fits = sound-order world.windows world.panels order sound.windows sound.panels fits
  windows-after (refreshes w test drawing cursor) fits = sound-unmarked_lines world.windows w test sound.windows
  windows-after composes fits = sound-unmarked world.windows (composed_windows world) sound.windows
  windows-after effect fits = sound.windows

  panels-after : (effect : Effect) → FitsEffect world effect → IsReady world effect → AreSoundPanels (after world effect).windows.window (after world effect).panels
  panels-after (arranges order) fits ready = sound-panels world.windows world.panels order sound.panels ready fits
  panels-after effect fits ready = panels-kept world.panels world.windows.window (after world effect).windows.window (λ p w is other. grind (arith, places-changed, same_if)) sound.panels

  sound-effect : (effect : Effect) → FitsEffect world effect → IsReady world effect → IsSound (after world effect)
  sound-effect effect fits ready = record {
    windows = windows-after effect fits;
    panels = panels-after effect fits ready;
    pairs = grind arith;
    virtual = let size = size-effect world effect in rw (size.lines, size.columns) (sound-virtual world effect sound fits);
  }

-- ---- an edit alone

pub sound-edited : (world : World) (edit : Edit) → IsSound world → FitsEdit world.windows edit → IsSound (world_edited world edit)
sound-edited world edit sound fits = sound-effect world sound (arranges (changes (edits edit))) fits tt

-- ---- each call

fits : (world : World) (call : Call) → IsSound world → refusal world call ≡ None → FitsEffect world (effect_of world call)
fits world call sound accepted = grind (arith, fits-making, fits-writing, fits-copying, fits-stacking, fits-refresh)

pub sound-call : (world : World) (call : Call) → IsSound world → refusal world call ≡ None → IsSound (world_after world call)
sound-call world call sound accepted = sound-effect world sound (effect_of world call) (fits world call sound accepted) (ready world call accepted)
