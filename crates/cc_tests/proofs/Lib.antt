mod ShellExamples
mod TreeExamples
