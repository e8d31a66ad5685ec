mod Appending
mod WrittenExpressions
mod WrittenDeclarations
mod WrittenData
mod WrittenItems
mod WrittenStatements
