pub mod NumbersTables
pub mod GraphsTables
pub mod RecursionTables
pub mod OrderTables
pub mod DoublingTables
pub mod PathsTables
