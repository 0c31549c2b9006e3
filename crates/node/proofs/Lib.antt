mod Lines
mod Advancing
mod Looking
mod Choosing
mod Reached
mod Running
mod Driving
mod Sessions
