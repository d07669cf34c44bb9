-- what breadth-first search answers and what it leaves
pub mod Breadth
-- what width search answers and what it leaves
pub mod Width
-- what its parts promise each other
pub mod UnderWay
pub mod Sifting
