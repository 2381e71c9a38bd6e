mod Pouched
mod Asked
