mod Output
