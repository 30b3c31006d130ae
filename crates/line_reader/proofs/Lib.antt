mod FieldsBack
mod Opening
mod OperandsBack
mod Round
mod Shown
