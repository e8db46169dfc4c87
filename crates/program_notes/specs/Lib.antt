pub mod RefusedAt
