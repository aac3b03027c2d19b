pub mod LineLaws
pub mod SheetLaws
