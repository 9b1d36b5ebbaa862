pub mod Firsts
pub mod TextWords
pub mod Plain
pub mod NameBytes
pub mod Numbers
pub mod WholeWords
pub mod FieldSpans
pub mod NumberDigits
