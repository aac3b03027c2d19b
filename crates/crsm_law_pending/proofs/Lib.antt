mod Lines
mod Steps
mod Puts
mod Numbers
mod Agendas
mod Counting
