mod Acts
mod PersistFew
