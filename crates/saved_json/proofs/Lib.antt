pub mod ItemCounts
pub mod FieldsFound
pub mod HeldSnapshots
pub mod KeptMembers
pub mod OnlyMember
pub mod PassedItems
pub mod PassedMembers
