mod Pages
mod Sent
mod Told
mod Tops
