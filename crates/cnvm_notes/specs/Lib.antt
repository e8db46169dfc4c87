pub mod RefusedLine
