pub mod MonthSearch
pub mod JiffCalendar
pub mod Walks
pub mod Puts
pub mod Casts
pub mod ReadingSteps
pub mod CalendarPromises
