pub mod Granting
pub mod Regions
pub mod KeyRegions
pub mod HeapValues
pub mod HeapAgreeing
pub mod Heap
