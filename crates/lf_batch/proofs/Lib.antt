pub mod ZipLaws
pub mod ReaderSharing
