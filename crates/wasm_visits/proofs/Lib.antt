mod Runs
mod RowsListed
mod NamesListed
mod ModulesListed
mod Asked
