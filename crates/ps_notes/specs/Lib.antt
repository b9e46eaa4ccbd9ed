-- what a reader must believe: the notes of an application
pub mod Notes
-- apparatus: the list of first readers, and what the code keeps of it
pub mod Readers
