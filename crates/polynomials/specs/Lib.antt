pub mod Faults
pub mod Held
pub mod Left
pub mod Asked
pub mod TermQuestions
pub mod Leads
