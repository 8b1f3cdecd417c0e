mod Agrees
mod Fixed
