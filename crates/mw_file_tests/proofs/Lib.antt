mod ApartWrites
mod PreparedPlaces
