pub mod Results
pub mod RoomTests
