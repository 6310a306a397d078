-- that one window's cells are another's, for own_is_moved and CellLaws
pub mod WindowLaws
-- that two writes are one, for joined_writes; compose's and windows' writes rest on it
pub mod PutLaws
-- that a frame is the smallest rectangle, for frame_is_smallest and joined_frames
pub mod FrameLaws
-- that refreshing leaves the picture and the topmost, for kept_by_refresh and unmarked_picture
pub mod RefreshLaws
-- tests of all numbers below one, for the laws below
pub mod Below
-- what the search from the top rests on, for the laws of the kept picture
pub mod ViewLaws
-- that a window in no panel is none of a panel, for the tests of making in Allowed
pub mod PanelLaws
-- that a shared part is a rectangle, for shared_rectangle
pub mod SharingLaws
-- that only what derives from a shifted window changes, for kept_by_mvderwin
pub mod AncestorLaws
-- that an edit is one write of its drawing, for edits_are_writes and the laws of edits and calls below
pub mod EditLaws
-- that a write keeps the picture outside its frame, for kept_by_edits
pub mod PictureLaws
-- that an unaffected line has no affected place, for kept_picture
pub mod LineLaws
-- that an edit keeps the picture outside its frame, for kept_by_edits and frames_are_inside
pub mod WritingLaws
-- that the tests of a call ensure what its effect requires, for all laws of calls
pub mod Allowed
-- that a call on a panel keeps the picture where the panel isn't seen, for kept_by_stacking
pub mod StackingLaws
-- that a call keeps the picture at each place that it doesn't affect, for kept_picture and kept_places
pub mod CallLaws
-- that a write and a call change the cells that they write, and no others, for writes_are_shared, cells_after_calls
-- and frames_of_calls
pub mod CellLaws
-- that making, deleting and moving keep what is found elsewhere, for kept_by_making
pub mod MoveLaws
-- that no call changes the size of the screen, for the layers above
pub mod Sizes
-- that panels stay sound, for the layers above
pub mod PlaceLaws
-- what each effect requires so that it leaves a sound world, for worlds_stay_sound, as the files below
pub mod Fits
-- that what windows show and drawings have are cells
pub mod SoundCells
-- that the tests of the calls that write and copy ensure what their effects require, and that given cells are cells
pub mod FitsCalls
-- that edits and marks leave sound windows
pub mod SoundEdits
-- that making, deleting, moving and shifting do
pub mod SoundMaking
-- that orders leave sound panels
pub mod SoundOrders
-- that refreshing leaves a sound virtual screen
pub mod SoundScreens
-- that effects and calls leave sound worlds
pub mod SoundCalls
