mod Selecting
