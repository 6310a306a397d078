-- What a desk keeps, and the world that it represents, call by call; for `DamageCovers`, `WindowCalls`, `Arranging` and others
pub mod DeskLemmas
-- A drawing is laid over a picture line by line; for `show_rectangle`, `show_touched`
pub mod Laying
-- What noutrefresh and pnoutrefresh draw on each line of the screen; for `show_touched`, `refresh_pad`, `show_rectangle` and others
pub mod RefreshedLines
-- Windows are unmarked one after another; for `unmark_composed`
pub mod Unmarking
-- Where damage covers what an accepted call may change, the damage of a desk still covers all that differs after it, and few lines are damaged: so it
-- leaves a desk, and was made; for `refresh_window`, `refresh_pad`, `set_colours`, `new` and others
mod DamageCovers
-- The damage of one window after another; for `damage_visible`
mod Visible
-- What a change damages, in terms of the windows before it; for `copy_damaging`, `make_damaging`, `write_damaging`, `fill_damaging`, `put_damaging`
mod AffectedDamages
-- How many cells update_panels reads: as many as there are damaged columns; for `CellsRead`
mod Reading
-- The touched columns of a window are damaged line by line; for `show_touched`
mod Touching
-- What is shown of a write in the standard screen where no panel is visible; for `damage_written`
mod StandardWrites
-- A call on panels: what the stack of panels says of it, and the desk on which it is made; for `arrange`, `call`, `new_panel` and others
mod Arranging
-- What a call on panels damages: the part of the panel that it names, as it was, and that of the panel that it changed or made, as it is; for
-- `arrange_damaging`
pub mod Parting
-- The rectangle of the screen to which a pad's cells are copied is what the copy draws; for `refresh_pad`
pub mod Padding
-- What update_panels reads: no less than it changes, and no more than all of the damaged lines; for `compose`
pub mod CellsRead
-- A call on windows, made on a desk: it leaves a desk, and was made; for `call`
mod WindowCalls
-- Given cells, put on a desk: what they leave is a desk; for `fill`, `put`
mod GivenCells
-- What a method of a call answers, as the outcome of the call or its reply; for `make`, `draw`, `write`, `copy`, `arrange`
pub mod OutcomeLaws
