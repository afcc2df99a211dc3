mod Connections
