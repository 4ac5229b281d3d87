pub mod CountableTables
pub mod UnionsTables
pub mod CsetsTables
pub mod RelatorsTables
pub mod PairsTables
pub mod CompositionsTables
