-- What an edit writes: it leaves the picture as it is at every place of the screen where its frame isn't shown.
use Rattle.std.specs.Prelude.{◌≡◌, ◌<◌, ◌≤◌}
use Rattle.world.specs.{ℕ, true, false, Option, Some, arith, refl, ◌∙◌, Drawing, HasPlace, Window, WindowMap, Windows, put_windows, Panels, found_from_top, holds, standard_screen, AreSoundWindows}
use Rattle.world.specs.{Edit, after_edit, edit_drawing, edit_frame, edit_window, edit_shows_at, Rect}
use Rattle.world.proofs.EditLaws.{differ-cells, edit-draws, frame-edit}
use Rattle.world.proofs.FrameLaws.{frame_of-is}
use Rattle.world.proofs.PictureLaws.{SameView, found-put, outline-put, standard-holds}
use Rattle.world.proofs.ViewLaws.{SameCells, found-dressed, own-same}
use Rattle.world.proofs.WindowLaws.{own-put}

-- ---- what stays

pub put-view : (window : WindowMap) (w : ℕ) (f : Drawing) → SameView (put_windows window w f) window
put-view window w f = grind (arith, (outline-put window w f), (own-put window w f))

-- ---- what is shown where, and where windows are, is as it was

edit-cells : (windows : Windows) (edit : Edit) → SameCells (after_edit windows edit).window (put_windows windows.window (edit_window edit) (edit_drawing windows edit))
edit-cells windows edit = differ-cells _ _ (edit-draws windows edit)

pub view-edit : (windows : Windows) (edit : Edit) → SameView (after_edit windows edit).window windows.window
view-edit windows edit =
    let same = edit-cells windows edit in
    let put = put-view windows.window (edit_window edit) (edit_drawing windows edit) in record {
      outlines = λ u. same.outlines u ∙ put.outlines u;
      places = λ u y x. own-same _ _ same.backings u y x ∙ put.places u y x;
    }

pub there-still : (new old : WindowMap) → SameView new old → (w y x : ℕ) → HasPlace old w y x → HasPlace new w y x
there-still new old same w y x h = grind arith

-- ---- the picture

found-in : (windows : Windows) (panels : Panels) (edit : Edit) (y x : ℕ) (o : Option Window) → windows.window (edit_window edit) ≡ o
    → holds windows.window standard_screen y x ≡ true → edit_shows_at windows panels edit y x ≡ false
    → found_from_top (put_windows windows.window (edit_window edit) (edit_drawing windows edit)) panels y x ≡ found_from_top windows.window panels y x
found-in windows panels edit y x o is there free = grind (arith, found-put, frame-edit)

pub found-edit : (windows : Windows) (panels : Panels) (edit : Edit) (y x : ℕ) → AreSoundWindows windows → y < windows.lines → x < windows.columns
    → edit_shows_at windows panels edit y x ≡ false → found_from_top (after_edit windows edit).window panels y x ≡ found_from_top windows.window panels y x
found-edit windows panels edit y x sound below left free =
    found-dressed _ _ (edit-cells windows edit) panels y x ∙ found-in windows panels edit y x _ refl (standard-holds windows y x sound below left) free

-- ---- the frame lies in the window

pub inside-edit : (windows : Windows) (edit : Edit) (r : Rect) → edit_frame windows edit ≡ Some r
    → (r.top ≤ r.bottom) × (r.left ≤ r.right) × HasPlace windows.window (edit_window edit) r.bottom r.right
inside-edit windows edit r is = grind (arith, frame-edit, frame_of-is)
