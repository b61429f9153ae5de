mod Rooms
mod Lodging
mod Owned
