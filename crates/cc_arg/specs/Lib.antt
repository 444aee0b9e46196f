pub mod Action
pub mod Aliases
pub mod Arguments
pub mod PossibleValues
pub mod Printed
pub mod ShownNames
pub mod ValueSources
