mod FirstLines
mod ValueFilesExamples
