-- The definitions and laws of the calendar, of layouts, and of the machine of their places.
pub mod Calendar
pub mod CalendarPromise
pub mod Texts
pub mod Layouts
pub mod Places
pub mod Names
pub mod Readings
pub mod CalendarLaws
pub mod PlaceLaws
pub mod FieldLaws
pub mod NameLaws
pub mod DateLaws
pub mod OffsetLaws
pub mod ReadingLaws
pub mod LayoutLaws
pub mod DomainLaws
