-- What the definitions of `world` say of small worlds, for their reader. They stand here, as nothing but their reader needs
-- them, and a first build doesn't wait for them.
pub mod Examples
-- What the calls on panels do and answer, and which lines and places they affect
pub mod PanelExamples
-- What copying and touching do to small windows; for `RefreshExamples`
pub mod CopyExamples
-- What noutrefresh and pnoutrefresh do to small screens
pub mod RefreshExamples
