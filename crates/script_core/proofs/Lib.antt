pub mod Numbers
pub mod EntryLemmas
pub mod PairLemmas
pub mod ConversionLemmas
pub mod SaidLemmas
pub mod ShelfLemmas
pub mod TableLemmas
pub mod Closed
pub mod Lines
mod Trials
