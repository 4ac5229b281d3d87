pub mod LogicTables
pub mod ProductsTables
pub mod SumsTables
