pub mod SystemLines
pub mod ValueFiles
