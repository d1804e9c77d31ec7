mod Drawing
mod Made
mod Pushed
mod Fits
mod Examples
